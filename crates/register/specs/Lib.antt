pub mod Loading
pub mod Draws
