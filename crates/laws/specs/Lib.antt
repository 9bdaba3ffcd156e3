pub mod Exposure
pub mod ReadAs
