pub mod Content
pub mod Dotted
pub mod Fragments
pub mod Line
pub mod Members
pub mod Objects
pub mod Text
pub mod proofs_only
