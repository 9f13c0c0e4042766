pub use Rattle.plant_config.specs.Plant
pub use Rattle.number_tables.specs.Numbers
pub use Rattle.change_boards.specs.Screens
pub mod Row
pub mod Watchers
pub mod Due
pub mod TablesInside
pub mod Changed
