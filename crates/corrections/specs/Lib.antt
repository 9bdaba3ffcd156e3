pub mod Roles
pub mod Claims
pub mod Effects
pub mod Pairs
