pub mod Entry
pub mod Rolling
