-- What the proofs of several functions use.
pub mod Rows
pub mod Products
pub mod Sweeps
pub mod RoundsLaws
pub mod Growing
pub mod Facts
pub mod Agrees
pub mod Puts
pub mod Loads
pub mod Starts
pub mod Griddings
pub mod Agreements
pub mod EachBits
