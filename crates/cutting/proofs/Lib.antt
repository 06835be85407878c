pub mod Pad
pub mod Packet
