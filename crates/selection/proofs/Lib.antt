pub mod Fronts
pub mod Ledger
pub mod Sized
