pub mod Masks
pub mod Both
pub mod Padded
pub mod Heads
