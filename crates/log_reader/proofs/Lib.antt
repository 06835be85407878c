pub mod Count
pub mod Once
