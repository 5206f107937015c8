pub mod News
pub mod Mades
pub mod Books
pub mod Orders
