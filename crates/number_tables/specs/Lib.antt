pub mod Table
pub mod TableInside
pub mod Laws
pub mod Numbers
pub mod SetInside
