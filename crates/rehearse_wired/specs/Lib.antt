pub mod Requests
pub mod Names
pub mod Sending
pub mod Piles
pub mod Misuses
