pub mod Packet
pub mod Segment
pub mod Type9
pub mod Type11
pub mod Head
pub mod Parsed
pub mod Inside
