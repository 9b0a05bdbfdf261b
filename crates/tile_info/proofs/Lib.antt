pub mod Coded
pub mod Walk
pub mod Word
pub mod Rules
pub mod Into
