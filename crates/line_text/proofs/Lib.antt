pub mod LinesLemmas
pub mod JoinLemmas
pub mod DecimalLemmas
pub mod HexLemmas
pub mod CutLemmas
mod Examples
