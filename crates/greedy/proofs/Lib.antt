pub mod Gains
pub mod Listed
pub mod Lowering
pub mod Turning
