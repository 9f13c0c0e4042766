pub mod LampLemmas
