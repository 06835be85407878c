pub mod Cases
pub mod Exactly
pub mod Joined
pub mod Numbers
