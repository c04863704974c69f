pub mod Lists
pub mod Keeping
pub mod Parts
pub mod Calls
pub mod Shown
pub mod Program
