pub mod Refusals
pub mod Firings
pub mod Passes
pub mod Scheduling
