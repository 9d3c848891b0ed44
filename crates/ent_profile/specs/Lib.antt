pub mod Faults
pub mod Reading
pub mod Categories
pub mod Asks
pub mod Spelled
pub mod Response
pub mod proofs_only
