pub mod Opened
pub mod Settleable
pub mod Roomy
pub mod Numbered
pub mod Settled
pub mod Row14
