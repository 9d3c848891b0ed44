pub mod AtEnd
pub mod KeysAsked
pub mod Marking
pub mod MetBefore
pub mod Noting
pub mod Settling
