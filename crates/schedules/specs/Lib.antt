pub mod Plan
pub mod Planned
