pub mod Says
pub mod Passes
pub mod Plans
pub mod Least
pub mod Charts
