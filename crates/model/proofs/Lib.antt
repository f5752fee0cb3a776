pub mod Facts
pub mod Laws
pub mod Sound
pub mod Source
pub mod Steps
pub mod Theory
