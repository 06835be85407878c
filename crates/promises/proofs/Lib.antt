pub mod ByTable
pub mod Status
pub mod FromUs
pub mod Responses
pub mod GoodStates
pub mod Determinism
pub mod Ignored
pub mod Promises
