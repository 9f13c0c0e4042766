pub mod WindowLemmas
pub mod RowLemmas
pub mod StandbyLemmas
pub mod TableLemmas
pub mod CodeLemmas
pub mod SameLemmas
pub mod FollowLemmas
pub mod ArrivalLemmas
