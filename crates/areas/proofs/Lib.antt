mod Fits
pub mod Zeroes
pub mod Kept
pub mod Lists
pub mod Marks
pub mod Crosses
pub mod Sources
pub mod Sorted
pub mod Session
pub mod Subtrees
pub mod Searches
pub mod Filled
