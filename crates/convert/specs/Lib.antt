pub mod Converted
pub mod Conversion
pub mod Same
pub mod Writing
pub mod Called
