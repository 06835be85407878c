pub mod Good
pub mod Kept
