pub mod Replays
pub mod Turn
