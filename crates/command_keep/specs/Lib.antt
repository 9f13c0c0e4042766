pub mod Keep
pub mod KeepInside
pub mod Laws
