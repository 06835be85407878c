pub mod Decimal
pub mod Puts
pub mod Digits
pub mod Lines
