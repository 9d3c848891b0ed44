pub mod Choose
pub mod Chosen
pub mod Combine
pub mod Identifiers
pub mod Seen
pub mod Taken
pub mod Under
pub mod proofs_only
