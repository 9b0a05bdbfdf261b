pub mod Rows
pub mod Layout
pub mod Segments
