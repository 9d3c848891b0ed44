pub mod Check
pub mod Measure
pub mod Order
pub mod Reading
pub mod Versions
