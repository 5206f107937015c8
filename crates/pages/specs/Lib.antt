pub mod Text
pub mod Decimal
pub mod Printed
pub mod Put
pub mod Entry
pub mod Lines
pub mod Written
