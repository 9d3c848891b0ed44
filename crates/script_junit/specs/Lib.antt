pub mod Escaped
pub mod Junit
