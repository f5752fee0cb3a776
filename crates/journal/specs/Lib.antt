pub mod Days
pub mod Deeds
pub mod Examples
pub mod Promises
pub mod Replies
pub mod Room
pub mod Steps
pub mod Answers
