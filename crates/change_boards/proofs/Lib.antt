pub mod NextLemmas
pub mod OneNotice
pub mod InOrder
pub mod StayBoards
pub mod ScreensLemmas
pub mod ScreenDisplays
pub mod ShownLemmas
mod Worked
