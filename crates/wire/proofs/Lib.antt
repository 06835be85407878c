pub mod HeadLaws
pub mod Fields
pub mod ByNumber
pub mod Addressed
pub mod Widths
pub mod SameFlow
