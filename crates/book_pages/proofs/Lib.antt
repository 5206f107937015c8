pub mod AskTexts
pub mod ListTexts
pub mod Signs
pub mod Rooms
pub mod GridTexts
pub mod ShowTexts
pub mod Examples
