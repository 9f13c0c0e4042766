-- The entries that a session makes in the plant's history.
pub use Rattle.plant_core.specs.HistoryLaws.{PlantEntry}
