pub mod Among
pub mod ByWays
pub mod Follow
pub mod Heard
pub mod Kept
