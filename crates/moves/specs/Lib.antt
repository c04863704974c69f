pub mod Body
pub mod Moves
