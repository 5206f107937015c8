pub mod Search
pub mod Groups
pub mod Index
pub mod Grouped
pub mod Same
pub mod Ranks
