pub mod Outcomes
pub mod Buffers
pub mod Counting
pub mod Kept
pub mod Orders
pub mod Steadies
pub mod Lower
pub mod Accepteds
