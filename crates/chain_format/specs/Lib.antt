pub mod Sizes
pub mod Step
pub mod Citing
pub mod Rule
pub mod Justified
pub mod Other
pub mod Chain
pub mod Twice
