pub mod Options
pub mod Sentences
pub mod Sources
pub mod Statuses
