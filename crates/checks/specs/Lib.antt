pub mod Verdicts
pub mod Synchronous
pub mod Asynchronous
pub mod Opening
pub mod Roles
