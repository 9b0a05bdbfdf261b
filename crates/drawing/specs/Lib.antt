pub mod Template
pub mod View
pub mod Picture
pub mod Refusal
pub mod Drawing
