pub mod Rooms
pub mod Session
pub mod Room
pub mod Page
pub mod Answered
pub mod Asked
pub mod SessionPrinted
