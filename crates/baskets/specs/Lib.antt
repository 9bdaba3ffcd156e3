pub mod Grades
pub mod Words
pub mod Reading
pub mod Claims
