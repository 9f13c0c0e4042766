pub use Rattle.doubled_bytes.proofs.Runs
pub mod FrameLemmas
pub mod Readings
pub mod LawLemmas
pub mod StepLemmas
pub mod FeedLemmas
pub mod PlainLemmas
pub mod FrontLemmas
pub mod PieceLemmas
mod Examples
