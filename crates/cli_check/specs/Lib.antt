pub mod Checking
pub mod Declaring
pub mod Meant
pub mod Sentences
pub mod Statuses
