pub mod PutLemmas
pub mod TableLemmas
pub mod Bits
pub mod SummaryLemmas
pub mod Members
pub mod LowestLemmas
pub mod FirstMember
pub mod SmallMembers
mod Worked
