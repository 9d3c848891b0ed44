pub mod Keyed
pub mod Text
pub mod Written
