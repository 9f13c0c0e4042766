pub mod Found
pub mod Numbering
pub mod SiteLemmas
pub mod Order
mod Worked
pub mod Groups
pub mod Pieces
pub mod Differ
pub mod OrderOfLevels
pub mod NumbersOfFile
pub mod LevelsOfFile
pub mod LevelPieces
pub mod Searches
pub mod SourcesOfFile
pub mod NamesOfFile
pub mod BusesOfFile
pub mod LinksOfFile
pub mod PlantOfFile
mod Words
mod DefaultNames
pub mod BenchLemmas
mod DrillParts
pub mod DrillLemmas
pub mod OriginLemmas
mod LevelsLemmas
pub mod PartsLemmas
pub mod ScreenLemmas
pub mod OneMore
pub mod OfFileLemmas
pub mod FactsOfFile
