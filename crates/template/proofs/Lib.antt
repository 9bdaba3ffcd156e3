pub mod Reading
pub mod Sections
