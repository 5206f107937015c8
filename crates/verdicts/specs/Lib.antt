pub mod Opposed
pub mod ByMarks
pub mod Tells
pub mod Answers
