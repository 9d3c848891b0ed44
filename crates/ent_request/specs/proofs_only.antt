pub mod Fed
pub mod Hashed
pub mod LentBag
pub mod Numbering
pub mod Reason
pub mod Sought
pub mod Telling
