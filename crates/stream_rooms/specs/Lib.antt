pub mod Placing
pub mod Inside
