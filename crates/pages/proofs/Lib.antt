pub mod Decimals
pub mod Puts
pub mod Entries
pub mod Lined
pub mod Writing
