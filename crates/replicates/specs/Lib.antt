pub mod Sizes
pub mod Before
pub mod Looking
pub mod Log
pub mod Call
pub mod Writing
pub mod Join
pub mod Apart
