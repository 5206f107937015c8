pub mod Rooms
pub mod Words
pub mod Refusals
pub mod Unread
pub mod Sources
pub mod Arguments
