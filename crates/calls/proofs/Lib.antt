pub mod Boxes
pub mod Rooms
pub mod Calls
