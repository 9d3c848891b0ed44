pub mod Codes
pub mod Counting
pub mod Permitted
