pub mod Caps
pub mod Apart
pub mod Remembered
pub mod Along
pub mod Exits
pub mod Whole
