pub mod Deeds
pub mod Kept
pub mod Telling
pub mod Theory
pub mod Rightness
