pub mod Tests
pub mod Written
pub mod Blocks
pub mod First
pub mod Rows
pub mod Below
pub mod Numbers
