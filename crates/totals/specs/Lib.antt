pub mod Cost
pub mod Counts
pub mod Examples
pub mod Promises
pub mod Tables
