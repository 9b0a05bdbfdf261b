pub mod Append
pub mod Walk
