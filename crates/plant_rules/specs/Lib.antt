pub mod Rules
pub mod KeysInside
pub mod RulesInside
pub mod Links
pub mod LinksInside
pub mod KnownInside
pub mod PlantFile
pub mod IsFile
