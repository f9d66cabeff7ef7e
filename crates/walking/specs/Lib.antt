pub mod Names
pub mod Quiet
pub mod Walk
pub mod Stands
