pub mod VerdictLemmas
pub mod AuditLemmas
pub mod LawLemmas
