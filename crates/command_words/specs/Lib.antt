pub mod Words
pub mod Parts
pub mod ReadParts
pub mod Table
pub mod ReadTable
pub mod ClapForms
pub mod WordsInside
