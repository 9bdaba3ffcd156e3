pub mod Marked
pub mod Claims
