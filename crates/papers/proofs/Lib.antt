pub mod Counted
pub mod ClaimsHold
pub mod SideBySide
pub mod Settings
pub mod Verdicts
pub mod Counts
pub mod MoreMarksHolds
pub mod SamplesHold
