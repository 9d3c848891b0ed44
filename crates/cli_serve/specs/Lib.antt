pub mod Limiting
pub mod Replying
pub mod Sentences
pub mod Starting
pub mod Statuses
pub mod proofs_only
