pub mod Memory
pub mod Ready
pub mod Rooms
