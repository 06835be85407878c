pub mod Refusal19
