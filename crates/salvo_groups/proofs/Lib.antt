pub mod OneGroup
pub mod Asking
pub mod AllGroups
pub mod AllEntries
pub mod Collected
mod Worked
