pub mod Faults
pub mod Led
pub mod Parts
pub mod Places
pub mod Told
pub mod Views
pub mod proofs_only
