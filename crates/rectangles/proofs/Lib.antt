pub mod Rising
pub mod Each
pub mod Four
pub mod Places
pub mod Answers
pub mod Lines
pub mod Covering
pub mod Promises
