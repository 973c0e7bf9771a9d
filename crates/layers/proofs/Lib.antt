pub mod Bounds
pub mod Tags
pub mod Relays
