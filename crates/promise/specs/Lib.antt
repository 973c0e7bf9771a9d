pub mod Sessions
pub mod Clients
pub mod Promise
pub mod Rehearsed
