pub mod Runs
pub mod Readings
pub mod Feeds
