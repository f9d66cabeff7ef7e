pub mod Basics
pub mod Tests
pub mod Fitting
mod Marked
pub mod KindBytes
