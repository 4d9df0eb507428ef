pub mod Waiting
pub mod Replies
