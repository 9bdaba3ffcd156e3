pub mod Claims
pub mod MoreMarks
pub mod Samples
