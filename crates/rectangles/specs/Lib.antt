pub mod Rectangles
pub mod Places
pub mod Covering
pub mod Promises
