pub mod Book
pub mod Promises
