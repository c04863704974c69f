pub mod Interrupted
pub mod Events
