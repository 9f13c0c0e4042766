pub mod Verdict
pub mod Audit
pub mod VerdictInside
pub mod Laws
