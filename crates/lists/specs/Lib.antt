pub mod Tab
pub mod First
pub mod Any
pub mod Front
pub mod Numbers
pub mod Tally
pub mod Passing
