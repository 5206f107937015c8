pub mod Telling
pub mod Books
pub mod Calls
pub mod Asking
pub mod Certainty
pub mod Spans
pub mod Sizes
