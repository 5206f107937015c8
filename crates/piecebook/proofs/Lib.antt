pub mod ResultsLaws
pub mod Listings
pub mod Comparing
pub mod Chaining
pub mod Clashing
pub mod OpenBooks
pub mod Replicating
pub mod Texting
