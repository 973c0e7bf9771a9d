pub mod Working
pub mod Misreading
pub mod Scheduling
