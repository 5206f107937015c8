pub mod Judging
pub mod Examples
pub mod Empty
pub mod Circles
pub mod RowNumbers
