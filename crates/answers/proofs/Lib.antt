pub mod Laws
pub mod Unique
pub mod Passed
