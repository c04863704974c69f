pub mod Digits
pub mod Requests
pub mod Steps
pub mod Examples
pub mod Order
