pub mod Heard
pub mod Stands
