pub mod Loaded
pub mod Settling
pub mod Start
pub mod Turns
