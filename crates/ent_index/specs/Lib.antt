pub mod Asked
pub mod Cells
pub mod Groups
pub mod Index
pub mod Law
pub mod Rolls
pub mod proofs_only
