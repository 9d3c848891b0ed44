pub mod Evaluated
pub mod Evaluator
pub mod Exchange
pub mod Lending
pub mod LooksOf
pub mod Names
pub mod Point
pub mod proofs_only
