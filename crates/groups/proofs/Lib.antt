pub mod Fits
mod Gray
mod Pushing
mod Cutting
mod Ending
mod Walking
mod Searching
pub mod Steps
pub mod Lying
pub mod Grouping
pub mod Levels
pub mod Numbered
pub mod Quotient
pub mod Lower
pub mod Examples
mod Certificate
mod Ranking
mod Arranging
mod Making
