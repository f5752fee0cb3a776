pub mod Benefit
pub mod Examples
pub mod Promises
