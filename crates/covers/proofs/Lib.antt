pub mod Permuted
pub mod Less
pub mod Draws
pub mod Books
pub mod Order
pub mod Acceptance
pub mod Conserve
pub mod Samples
