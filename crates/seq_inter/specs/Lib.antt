pub mod Refs
pub mod Inter
