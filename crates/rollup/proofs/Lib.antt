pub mod Reaches
pub mod Refusals
