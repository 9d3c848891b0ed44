pub mod Tables
pub mod Changes
pub mod Gains
pub mod Shown
pub mod proofs_only
