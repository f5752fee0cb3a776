pub mod Candidates
pub mod Turns
