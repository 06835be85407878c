pub mod Mail
pub mod Run
pub mod ReadBack
pub mod OfCalls
