pub mod Claims
pub mod Rooms
pub mod Examples
pub mod Pages
pub mod SessionPage
pub mod Texts
pub mod SessionPrinted
