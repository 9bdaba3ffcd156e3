pub mod Words
pub mod Good
pub mod SumLaws
