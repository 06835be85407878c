pub mod Running
pub mod Once
