pub mod Clash
pub mod Silenced
pub mod Derived
pub mod Reply
