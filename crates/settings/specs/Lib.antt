pub mod Settings
pub mod Members
pub mod Pieces
pub mod Chosen
