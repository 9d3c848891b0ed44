pub mod Asked
pub mod Codes
pub mod Entries
pub mod Grouping
pub mod Logging
pub mod Phases
