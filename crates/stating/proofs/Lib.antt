pub mod Passed
pub mod Listed
pub mod Called
pub mod Operating
pub mod Behind
pub mod Stating
