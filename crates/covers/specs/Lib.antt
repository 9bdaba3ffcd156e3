pub mod Claims
pub mod Order
