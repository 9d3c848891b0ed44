pub mod Alike
pub mod Fitting
pub mod PlanStands
pub mod Remembering
pub mod Shelved
pub mod Swapping
pub mod TestsKept
