pub mod Sets
pub mod Search
pub mod Claims
pub mod Samples
