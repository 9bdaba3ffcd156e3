pub mod Figures
pub mod Floor
