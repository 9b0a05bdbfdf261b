pub mod Chain
pub mod Bits
pub mod Words
