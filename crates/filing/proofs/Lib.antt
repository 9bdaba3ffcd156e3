pub mod Loads
pub mod StageLaws
pub mod FilingLaws
