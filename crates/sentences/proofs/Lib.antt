pub mod Refusals
pub mod Unreads
pub mod Rooms
pub mod Readings
pub mod Arguments
pub mod Tellings
