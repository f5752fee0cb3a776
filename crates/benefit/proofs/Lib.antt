pub mod Choice
pub mod Share
