mod Answers
pub mod Made
pub mod Theorems
pub mod Markless
pub mod Writes
mod Examples
pub mod Calls
