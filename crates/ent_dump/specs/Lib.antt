pub mod Dumped
pub mod Edits
pub mod Lines
pub mod Reply
pub mod proofs_only
