pub mod Within
pub mod Readings
