pub mod Polynomial
pub mod Table
pub mod Width
