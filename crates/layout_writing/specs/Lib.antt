pub mod Write
pub mod Promises
pub mod Called
