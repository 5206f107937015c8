pub mod Sizes
pub mod Area
pub mod Tables
pub mod Between
pub mod Subtree
pub mod Question
