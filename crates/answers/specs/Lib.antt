pub mod Answers
pub mod Once
pub mod Stands
pub mod Kinds
pub mod Readings
