pub mod Sizes
pub mod Pairs
pub mod Breadth
pub mod Tree
pub mod Parts
pub mod Index
pub mod Matrix
pub mod Steps
