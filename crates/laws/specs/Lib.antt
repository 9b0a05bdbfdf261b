pub mod AllBits
pub mod Sound
