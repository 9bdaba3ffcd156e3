pub mod Members
pub mod Sets
pub mod OneItem
pub mod Items
pub mod PutIn
pub mod Books
pub mod Samples
