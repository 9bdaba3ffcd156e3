pub mod Periods
pub mod Months
pub mod Years
pub mod Ends
pub mod Dates
