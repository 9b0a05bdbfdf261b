pub mod Level
pub mod Picture
