pub mod Puts
pub mod Digits
pub mod Rows
pub mod Filled
pub mod Chains
pub mod Placed
