pub mod RowsLemmas
pub mod SaidLemmas
pub mod QuietLemmas
pub mod ProgramLemmas
pub mod DispatchLemmas
