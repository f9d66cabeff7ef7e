pub mod Found
pub mod Sweeps
pub mod Hops
