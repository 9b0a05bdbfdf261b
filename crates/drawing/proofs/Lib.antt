pub mod Marked
pub mod Products
pub mod Pictures
