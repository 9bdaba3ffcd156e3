pub mod Marks
pub mod Related
pub mod Amounts
pub mod Plain
pub mod Readings
pub mod Less
pub mod Outcomes
pub mod Claim
