pub mod Layout
pub mod Lamp
pub mod Packet
pub mod Reading
pub mod ReadingInside
pub mod Refusal
pub mod Kind
