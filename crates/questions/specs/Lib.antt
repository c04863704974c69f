pub mod Found
pub mod Asking
pub mod Holders
pub mod Fill
