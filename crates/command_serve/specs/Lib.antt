pub mod Traces
pub mod Serve
pub mod ServeInside
pub mod Laws
pub mod Whole
