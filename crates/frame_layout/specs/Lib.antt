pub mod Frame
pub mod Sequence
