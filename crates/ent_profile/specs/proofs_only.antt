pub mod Reals
pub mod Written
