pub mod RowLemmas
pub mod TableLemmas
pub mod WatcherLemmas
pub mod PositionLemmas
pub mod NotedLemmas
pub mod DueLemmas
pub mod BecomeLemmas
