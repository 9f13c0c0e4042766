pub mod LawLemmas
pub mod OpenLemmas
pub mod SizeLemmas
