pub mod Points
pub mod Coeffs
pub mod Grain
pub mod Promises
pub mod Inner
