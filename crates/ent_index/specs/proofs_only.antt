pub mod Asked
pub mod Grouped
pub mod Groups
pub mod Rolls
pub mod Steps
pub mod Stored
