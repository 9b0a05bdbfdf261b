pub mod Into
pub mod Bounds
pub mod HeaderLayout
pub mod Refused
pub mod Cleared
pub mod Accepted
