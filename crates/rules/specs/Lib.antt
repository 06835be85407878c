pub mod Segments
pub mod Messages
pub mod Inside
