pub mod Choosing
pub mod Combining
pub mod Naming
