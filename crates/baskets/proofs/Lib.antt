pub mod Worst
pub mod Gathering
pub mod Causes
pub mod Reading
