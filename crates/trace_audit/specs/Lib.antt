pub mod Verdict
pub mod RowsInside
pub mod KeptInside
pub mod Laws
pub mod FindingLaws
