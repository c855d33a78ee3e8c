pub mod Append
pub mod Areas
pub mod Rows
