pub mod Tiles
pub mod Readings
