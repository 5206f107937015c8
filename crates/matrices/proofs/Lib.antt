-- What the proofs of several functions use.
pub mod Laws
pub mod Words
pub mod Seeks
pub mod Cleared
pub mod Products
pub mod Flows
pub mod Leads
