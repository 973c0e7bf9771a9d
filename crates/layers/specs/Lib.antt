pub mod Refusals
pub mod Layers
pub mod Made
pub mod Shown
pub mod Tags
