pub mod Sizes
pub mod Matrix
pub mod Flow
pub mod Led
