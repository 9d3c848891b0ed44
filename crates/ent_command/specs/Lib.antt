pub mod Asked
pub mod Asking
pub mod CommandView
pub mod Edits
pub mod Keys
pub mod Making
pub mod Wanted
