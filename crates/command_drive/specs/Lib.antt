pub mod Drive
pub mod DriveRow
pub mod DriveLaws
pub mod DriveInside
pub mod Laws
