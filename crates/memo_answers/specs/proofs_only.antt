pub mod Learning
pub mod Signing
