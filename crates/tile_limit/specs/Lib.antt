pub mod Within
pub mod Promises
