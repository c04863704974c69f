pub mod Numbering
pub mod Interrupted
pub mod StatusQuery
pub mod Control
pub mod LockMessages
