pub mod Counting
pub mod Below
pub mod Found
