pub mod Positions
pub mod Failures
pub mod Reading
pub mod Rows
pub mod Options
