pub mod Factor
pub mod Figures
