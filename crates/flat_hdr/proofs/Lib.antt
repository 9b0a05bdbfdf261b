pub mod Rows
pub mod Zero
