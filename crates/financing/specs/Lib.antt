pub mod Good
pub mod Netting
pub mod Weighing
pub mod Words
