pub mod Session
pub mod Reached
pub mod Joined
pub mod Nodes
pub mod Below
pub mod Sizes
pub mod Ranges
pub mod Places
pub mod Standing
pub mod Packing
pub mod Bounds
pub mod Matrices
pub mod Events
pub mod Fits
mod Nexts
pub mod Queue
mod Rounds
mod Written
pub mod Walking
pub mod Resolution
pub mod Joins
pub mod Buildings
