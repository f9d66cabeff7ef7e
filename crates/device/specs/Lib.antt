pub mod Parts
pub mod Reader
pub mod Answer
