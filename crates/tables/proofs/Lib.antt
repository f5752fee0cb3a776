pub mod Deeds
pub mod Moves
pub mod Places
pub mod Scans
pub mod Taking
