pub mod Cursor
pub mod Hearing
