pub mod FollowLemmas
pub mod TextLemmas
pub mod EndLemmas
pub mod OneLemmas
pub mod LawLemmas
