pub mod Counted
pub mod Desks
pub mod Differing
pub mod Marks
pub mod Pairs
pub mod Permits
pub mod Serials
