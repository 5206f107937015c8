pub mod Inside
pub mod Contents
pub mod Filling
