pub mod Records
pub mod Written
