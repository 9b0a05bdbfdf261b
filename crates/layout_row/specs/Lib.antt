pub mod Row
pub mod Inner
