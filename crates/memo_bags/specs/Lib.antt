pub mod Findings
pub mod Found
pub mod Ways
pub mod proofs_only
