pub mod Filed
pub mod Law
pub mod References
pub mod Root
pub mod Stored
pub mod Together
pub mod proofs_only
