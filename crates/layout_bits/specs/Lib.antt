pub mod Rows
pub mod Bits
pub mod Readable
pub mod LayoutCode
