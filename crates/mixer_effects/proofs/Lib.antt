mod Worked
pub mod AnyLemmas
pub mod ReachLemmas
pub mod LiveLemmas
pub mod PlantLemmas
pub mod NumberLemmas
pub mod TableLemmas
pub mod SpanLemmas
pub mod PlaceLemmas
