pub mod Equal
pub mod Told
pub mod Walks
