pub mod Samples
pub mod Heads
pub mod Baskets
pub mod Covered
pub mod Claims
