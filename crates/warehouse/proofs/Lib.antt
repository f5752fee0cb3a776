pub mod Door
pub mod Opened
pub mod Props
