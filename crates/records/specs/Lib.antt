pub mod Readable
pub mod Cause
pub mod Sums
pub mod Step
pub mod Good
