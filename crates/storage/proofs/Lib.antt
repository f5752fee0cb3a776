pub mod Asks
pub mod Deletes
pub mod Inserts
pub mod Rebuilt
