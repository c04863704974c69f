pub mod Contracts
pub mod Numbering
pub mod Watching
pub mod Program
