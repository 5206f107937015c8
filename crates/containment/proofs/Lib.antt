pub mod Pieces
pub mod Ends
pub mod Contains
pub mod Lent
pub mod Siblings
pub mod Rows
pub mod Table
