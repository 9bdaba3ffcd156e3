pub mod DayByDay
pub mod Order
pub mod SetSteps
pub mod Sound
pub mod Tallies
pub mod TradeLoop
