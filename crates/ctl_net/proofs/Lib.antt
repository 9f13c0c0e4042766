pub mod CutLemmas
pub mod InputLemmas
pub mod LinkEventsLemmas
pub mod MemAcceptorLemmas
pub mod MemLinkLemmas
pub mod MemNetLemmas
pub mod MemPortLemmas
pub mod TcpLinkLemmas
