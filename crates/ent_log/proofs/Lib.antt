pub mod Before
pub mod Differing
pub mod Gathered
pub mod MapDifference
pub mod MapsBefore
pub mod Serials
pub mod Unique
