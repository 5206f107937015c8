pub mod Named
pub mod Examples
