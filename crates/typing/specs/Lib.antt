pub mod Stands
pub mod Cases
pub mod Calls
pub mod Functions
