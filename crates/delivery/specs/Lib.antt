pub mod Acting
pub mod Numbering
pub mod Verdicts
pub mod Scanning
