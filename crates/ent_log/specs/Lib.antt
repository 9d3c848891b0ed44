pub mod Difference
pub mod Entries
pub mod Law
pub mod Maps
pub mod Tables
