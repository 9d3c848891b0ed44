pub mod Joined
pub mod proofs_only
