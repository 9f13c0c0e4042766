pub mod Monitor
pub mod Laws
