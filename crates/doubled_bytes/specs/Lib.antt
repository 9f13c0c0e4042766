pub mod Doubled
pub mod Reading
pub mod Laws
pub mod Feeding
