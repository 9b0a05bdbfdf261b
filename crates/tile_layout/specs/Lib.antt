pub mod Limits
pub mod Layout
pub mod Demand3
pub mod Cleared
