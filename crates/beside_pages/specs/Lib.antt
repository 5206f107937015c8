pub mod Rooms
pub mod LogText
pub mod ComparisonText
pub mod Examples
