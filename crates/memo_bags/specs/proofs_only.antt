pub mod Led
pub mod Ready
