pub mod Dimensions
pub mod Facts
pub mod Levels
pub mod Parts
pub mod Places
pub mod Promises
pub mod Reading
pub mod Views
