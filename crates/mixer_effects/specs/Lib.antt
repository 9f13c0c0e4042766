pub mod Buses
pub mod Live
pub mod Wiring
pub mod WiringInside
pub mod GraphData
pub mod Laws
