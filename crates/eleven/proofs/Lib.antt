pub mod Eleven
pub mod LastFirst
