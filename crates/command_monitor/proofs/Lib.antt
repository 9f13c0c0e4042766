pub mod MonitorLemmas
pub mod LawLemmas
