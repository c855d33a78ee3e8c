pub mod Top
pub mod Rows
pub mod Pack
pub mod Flags
pub mod Scan
