pub mod Call
pub mod ReplyNumbers
pub mod ReplyDemands
pub mod Reply
