pub mod Integers
pub mod Found
pub mod Reading
pub mod Types
