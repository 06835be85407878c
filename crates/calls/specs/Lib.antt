pub mod Rooms
pub mod Calls
