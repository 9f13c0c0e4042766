pub mod Lists
pub mod ListsInside
pub mod Laws
