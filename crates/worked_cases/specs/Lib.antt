pub mod Cases
pub mod Misread
pub mod Scheduled
