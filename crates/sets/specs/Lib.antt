pub mod Sets
pub mod NextBit
pub mod Bytes
