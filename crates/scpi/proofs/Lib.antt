pub mod Accepting
pub mod Examples
pub mod Verdicts
