pub mod Lining
pub mod Reading
pub mod Sending
pub mod Telling
pub mod Walks
