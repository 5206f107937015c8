pub mod Parts
pub mod Halving
pub mod FactIndex
pub mod GroupIndex
pub mod SettlingLaws
pub mod Settleds
