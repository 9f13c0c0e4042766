pub mod StoreLemmas
pub mod EndLemmas
pub mod LineLemmas
pub mod SoundLemmas
pub mod LawLemmas
pub mod ShownLemmas
