pub mod AskedLemmas
pub mod DrillLemmas
pub mod LawLemmas
