pub mod Asking
pub mod Outcomes
pub mod Resting
pub mod Telling
