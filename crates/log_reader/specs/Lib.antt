pub mod Reader
pub mod Once
