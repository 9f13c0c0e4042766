pub mod TraceLine
pub mod Trace
pub mod Laws
pub mod LineInside
pub mod LineRoomInside
