pub mod Lookup
pub mod Pages
pub mod Laws
pub mod NamesInside
pub use Rattle.plant_config.specs.Plant
pub use Rattle.plant_config.specs.IsPlant
