pub mod Stream
pub mod StreamInside
pub mod Laws
