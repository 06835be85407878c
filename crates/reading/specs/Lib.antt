pub mod Desk
pub mod Table
pub mod Read
pub mod Good
pub mod Inside
