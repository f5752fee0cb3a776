pub mod Examples
pub mod House
pub mod Promises
