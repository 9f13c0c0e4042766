pub mod Rows
pub mod Quiet
pub mod Program
pub mod QuietLaws
pub mod ProgramLaws
