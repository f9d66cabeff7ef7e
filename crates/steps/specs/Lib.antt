pub mod Applying
pub mod Calling
pub mod Performing
pub mod Said
pub mod Standing
pub mod State
pub mod Stepping
pub mod Told
