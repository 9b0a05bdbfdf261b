pub mod Residual
pub mod Filters
