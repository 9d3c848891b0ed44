pub mod Cell
pub mod Count
pub mod Entries
pub mod Grid
pub mod Old
pub mod Order
pub mod Shape
pub mod proofs_only
