pub mod Inner
pub mod Into
