pub mod Law
pub mod Tested
pub mod proofs_only
