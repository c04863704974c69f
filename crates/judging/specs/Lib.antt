pub mod Replay
pub mod Kept
pub mod Statements
