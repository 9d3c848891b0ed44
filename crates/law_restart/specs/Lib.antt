pub mod Carried
pub mod Laws
pub mod Plain
pub mod Restart
