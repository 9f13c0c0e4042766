pub mod ReplayLemmas
pub mod LawLemmas
