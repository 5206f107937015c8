pub mod Silencing
pub mod Places
pub mod Replies
pub mod Inner
pub mod Meaning
pub mod Session
