pub mod Found
pub mod Placed
pub mod Settings
pub mod Values
pub mod Claims
