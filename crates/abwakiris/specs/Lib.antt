pub mod Checking
pub mod Packed
pub mod Routing
pub mod Runs
pub mod Unpacked
