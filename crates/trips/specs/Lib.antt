pub mod Trips
pub mod Cases
pub mod Limits
pub mod Bounds
