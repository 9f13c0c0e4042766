pub mod DisplayPacket
pub mod Laws
pub mod DisplayPacketInside
