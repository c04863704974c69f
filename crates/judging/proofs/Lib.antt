pub mod Calls
pub mod Fine
pub mod Statements
