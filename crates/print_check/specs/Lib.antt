pub mod Printed
pub mod Parts
pub mod Text
