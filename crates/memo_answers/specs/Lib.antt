pub mod Known
pub mod Told
pub mod proofs_only
