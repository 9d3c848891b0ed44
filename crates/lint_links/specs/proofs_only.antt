pub mod Found
pub mod Level
pub mod Refused
pub mod Root
pub mod Rows
