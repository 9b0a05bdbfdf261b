pub mod Word
pub mod Runs
pub mod Callers
pub mod Args
pub mod Recenter
pub mod Integers
