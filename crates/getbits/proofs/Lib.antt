pub mod Chain
pub mod Fields
pub mod Places
pub mod Callers
pub mod Widths
pub mod Stores
pub mod Parts
