pub mod Kept
pub mod Records
