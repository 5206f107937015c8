pub mod Replies
pub mod Demanded
pub mod Singles
