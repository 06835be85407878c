pub mod Bundles
pub mod Packets
