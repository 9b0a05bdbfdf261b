pub mod Tiling
pub mod Header
pub mod Into
pub mod HeaderLayout
pub mod HeaderTiling
