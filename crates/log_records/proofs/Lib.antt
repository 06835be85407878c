pub mod Found
pub mod Back
pub mod IsWritten
