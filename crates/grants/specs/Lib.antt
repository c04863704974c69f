pub mod Granting
pub mod Pass
