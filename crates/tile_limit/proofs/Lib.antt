pub mod OnWall
pub mod Limited
