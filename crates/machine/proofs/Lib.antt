mod Dealing
mod Finishing
pub mod Scheduling
mod Turning
mod Writing
