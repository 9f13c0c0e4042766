mod NameLists
mod TableLemmas
mod PageLemmas
pub mod LevelLemmas
pub mod LookupLemmas
mod Worked
