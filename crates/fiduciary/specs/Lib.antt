pub mod Former
pub mod Claims
