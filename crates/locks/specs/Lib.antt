pub mod Settled
pub mod Release
pub mod Complete
pub mod Asking
pub mod Quick
