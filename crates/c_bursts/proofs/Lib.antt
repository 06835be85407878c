mod Packets
pub mod Steps
pub mod Tests
