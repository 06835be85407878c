pub mod Widths
pub mod Writing
pub mod Wider
pub mod Demands
pub mod OfCalls
pub mod Witnesses
pub mod Impostors
