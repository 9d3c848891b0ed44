pub mod Answering
pub mod Childing
pub mod Cursor
pub mod Elements
pub mod Hearing
pub mod Passed
pub mod Ruling
