pub mod Shown
pub mod Changed
