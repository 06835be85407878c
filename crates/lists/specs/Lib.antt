pub mod Bytes
pub mod Each
pub mod First
pub mod Rows
