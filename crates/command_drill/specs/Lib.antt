pub mod Drill
pub mod DrillInside
pub mod Laws
