pub mod Output
pub mod Printing
