pub mod Ahead
pub mod Turns
pub mod TradeRuns
pub mod Covering
pub mod Baskets
pub mod Stretching
pub mod Weighing
