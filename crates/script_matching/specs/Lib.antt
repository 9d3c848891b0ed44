pub mod Matching
pub mod Places
pub mod Told
pub mod proofs_only
