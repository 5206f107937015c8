pub mod Names
pub mod Examples
