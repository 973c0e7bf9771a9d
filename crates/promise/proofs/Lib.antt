pub mod Makes
pub mod Keeping
pub mod Whole
