pub mod Rows
pub mod Numbers
pub mod Sizes
pub mod Layouts
pub mod Packed
pub mod Lengths
