pub mod Division
pub mod Proportion
pub mod Ends
