pub mod Crc
pub mod Feed
pub mod Looks
pub mod Steps
pub mod Vectors
pub mod Xor
