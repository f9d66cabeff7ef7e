pub mod Numbers
pub mod Means
pub mod From
