pub mod Records
pub mod Copies
pub mod Firings
pub mod Refusing
pub mod Standing
pub mod Schedules
pub mod Playing
