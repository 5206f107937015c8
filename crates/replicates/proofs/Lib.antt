-- What the proofs of several functions use.
pub mod Looks
pub mod Reaches
pub mod Same
pub mod Sequences
pub mod Rows
pub mod Shift
pub mod Calls
pub mod Joins
pub mod Aparts
mod Examples
