pub mod Change
pub mod Codes
pub mod Exchange
pub mod Left
pub mod Look
pub mod Names
pub mod Place
pub mod Table
