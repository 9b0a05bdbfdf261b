pub mod Usable
pub mod Fresh
pub mod Cleared
