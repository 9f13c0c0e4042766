pub mod Examples
pub mod PacketLemmas
pub mod MessageLemmas
pub mod AllAtLemmas
pub mod ReadingInsideLemmas
pub mod ReadingLemmas
pub mod BadMessageLemmas
pub mod RefusalLemmas
