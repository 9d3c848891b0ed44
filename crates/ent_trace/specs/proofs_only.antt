pub mod Marks
pub mod Met
pub mod Noted
pub mod Path
