pub mod Titles
pub mod Readings
