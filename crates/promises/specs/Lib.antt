pub mod ByTable
pub mod Responses
pub mod GoodStates
pub mod Determinism
pub mod Ignored
pub mod Witnesses
pub mod Statements
