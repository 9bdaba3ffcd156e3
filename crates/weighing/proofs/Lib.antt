pub mod Truth
pub mod Layouts
pub mod AddOns
pub mod SetRows
pub mod Entry
pub mod GoodRecords
