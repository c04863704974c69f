pub mod Contracts
pub mod Program
