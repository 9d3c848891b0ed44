pub mod Alone
pub mod CameBy
pub mod Heard
pub mod Plan
pub mod Run
pub mod Signed
pub mod proofs_only
