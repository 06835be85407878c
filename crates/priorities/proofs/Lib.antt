pub mod Joined
pub mod Apart
