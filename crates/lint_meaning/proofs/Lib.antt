pub mod Named
pub mod Levels
pub mod Limits
pub mod Least
