pub mod Limits
pub mod Groups
pub mod Answers
pub mod EntriesInside
pub mod Laws
