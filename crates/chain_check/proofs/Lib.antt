pub mod Asking
pub mod Meaning
