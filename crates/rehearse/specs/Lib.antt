pub mod Requests
pub mod Misuses
