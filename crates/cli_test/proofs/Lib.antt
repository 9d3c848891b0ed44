pub mod Headings
pub mod Shared
pub mod Tests
