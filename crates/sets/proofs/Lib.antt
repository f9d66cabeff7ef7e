pub mod Apart
pub mod Bits
pub mod Bools
pub mod FirstLaws
pub mod LowBits
pub mod RowLaws
pub mod SetLaws
