pub mod Brackets
pub mod Cut
pub mod Lines
pub mod Numbers
pub mod Sent
pub mod Sessions
pub mod Standing
pub mod Texts
