pub mod BetweenLemmas
