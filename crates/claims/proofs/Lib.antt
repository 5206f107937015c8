pub mod Fewer
pub mod Counts
pub mod Answering
pub mod Sheets
