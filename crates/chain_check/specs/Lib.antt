pub mod Call
pub mod Derived
