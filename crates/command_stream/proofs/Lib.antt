pub mod StreamPortLemmas
pub mod StreamLemmas
pub mod LawLemmas
