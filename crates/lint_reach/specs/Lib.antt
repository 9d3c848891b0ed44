pub mod Reached
pub mod proofs_only
