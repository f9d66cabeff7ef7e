pub mod Puts
pub mod Lines
pub mod Blocks
pub mod Whole
