pub mod Segment
pub mod Sending
pub mod OneFlow
pub mod OfSendings
pub mod Joint
pub mod Mixture
pub mod Meaning
pub mod Widths
