pub mod Sizes
pub mod Grid
pub mod Closed
pub mod Loaded
pub mod Answers
pub mod Gridded
pub mod Agree
pub mod EachBit
