pub mod OneFlow
pub mod Deliveries
pub mod Fresh
pub mod ByFlow
pub mod Apart
pub mod Widths
