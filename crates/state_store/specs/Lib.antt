pub mod Slots
pub mod Kept
pub mod Reading
pub mod Steps
pub mod Store
