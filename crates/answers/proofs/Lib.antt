pub mod Judges
pub mod Calls
pub mod Empty
pub mod Fresh
pub mod Unasked
pub mod Examples
pub mod Circles
pub mod RowNumbers
