pub mod Request
pub mod Fields
pub mod Print
