pub mod SamplesHold
pub mod Signed
pub mod RowBounds
