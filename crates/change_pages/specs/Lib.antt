pub mod Rooms
pub mod Change
pub mod Changes
pub mod Made
pub mod Order
