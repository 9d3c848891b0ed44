pub mod Ends
pub mod Listing
pub mod Statuses
pub mod Testing
pub mod proofs_only
