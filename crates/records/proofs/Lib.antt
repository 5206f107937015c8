pub mod Rows
pub mod Runs
pub mod Accepted
pub mod Examples
mod Records
pub mod Scans
pub mod Keys
pub mod Books
pub mod Keeps
pub mod Orders
pub mod Marks
pub mod Fits
pub mod Filters
pub mod Claims
pub mod Refuseds
