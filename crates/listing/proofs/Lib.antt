pub mod Putting
pub mod LineLaws
pub mod Apart
pub mod Along
pub mod Exits
pub mod Programs
pub mod Filling
pub mod Writing
