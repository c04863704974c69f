pub mod Outcome
pub mod Access
pub mod Standing
pub mod Info
pub mod Sessions
pub mod Waiting
pub mod Sweep
pub mod Deadline
