pub mod Rows
pub mod Packets
pub mod Kept
pub mod Laws
pub mod Response
pub mod Spoken
pub mod Computing
pub mod Lent
