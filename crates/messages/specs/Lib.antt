pub mod Rows
pub mod Joining
pub mod Inside
