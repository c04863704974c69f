pub mod Causes
pub mod Calls
pub mod Events
pub mod Listing
pub mod Answers
pub mod Program
