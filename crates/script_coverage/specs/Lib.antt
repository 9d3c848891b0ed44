pub mod Policies
pub mod Seen
pub mod Told
pub mod proofs_only
