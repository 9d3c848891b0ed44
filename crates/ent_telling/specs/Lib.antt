pub mod Attributes
pub mod Causes
pub mod Documents
pub mod Facts
pub mod Law
pub mod Paths
pub mod proofs_only
