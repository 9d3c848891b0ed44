pub mod Failing
pub mod LongLines
pub mod Pieces
pub mod Refusing
pub mod Replying
pub mod Selecting
pub mod Standing
pub mod Writing
