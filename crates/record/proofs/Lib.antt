pub mod RoundTrip
pub mod Fronts
