pub mod Blocks
pub mod Order
pub mod Places
pub mod Rows
