pub mod BetweenTurns
