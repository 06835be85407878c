pub mod Bursts
pub mod Inside
