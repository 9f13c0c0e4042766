pub use Rattle.plant_config.specs.Limits
pub use Rattle.number_tables.specs.Table
pub mod Crosspoints
pub mod Taps
pub mod TapsInside
pub mod Ties
pub mod Applied
pub mod Laws
