pub mod Append
pub mod Places
pub mod Plan
pub mod Rows
pub mod Written
