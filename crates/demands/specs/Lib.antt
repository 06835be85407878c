pub mod Writes
pub mod Demands
pub mod OfCalls
pub mod Witnesses
pub mod Impostors
