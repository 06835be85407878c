pub mod Sizes
pub mod Packet
pub mod Nested
