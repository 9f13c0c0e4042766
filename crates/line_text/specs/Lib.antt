pub mod Lines
pub mod LinesInside
pub mod Decimal
pub mod Cut
pub mod Laws
