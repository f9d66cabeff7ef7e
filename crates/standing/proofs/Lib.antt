pub mod Thirteen
pub mod Searching
pub mod Lives
pub mod Meaning
