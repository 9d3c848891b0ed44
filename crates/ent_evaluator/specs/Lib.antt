pub mod Held
pub mod Known
pub mod Memory
pub mod Tests
pub mod proofs_only
