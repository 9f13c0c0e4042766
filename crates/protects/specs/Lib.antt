pub use Rattle.plant_config.specs.Limits
pub mod Owners
pub mod Laws
