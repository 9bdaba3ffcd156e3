pub mod SearchLaws
pub mod FoundLaws
pub mod SetLaws
pub mod ClaimsHold
pub mod SamplesHold
