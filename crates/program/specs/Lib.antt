pub mod In
pub mod Heads
pub mod Reading
pub mod Reader
