pub mod Words
pub mod Further
