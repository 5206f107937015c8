pub mod JointJoining
pub mod Threes
pub mod Pasting
pub mod Joining
pub mod Rows
pub mod Judges
pub mod Demands
pub mod Opposing
