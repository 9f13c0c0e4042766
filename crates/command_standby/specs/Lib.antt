pub mod Taking
pub mod Standing
pub mod Standby
pub mod FollowInside
pub mod Laws
