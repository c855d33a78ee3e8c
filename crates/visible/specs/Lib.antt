pub mod Category
pub mod View
pub mod Flags
pub mod Passes
pub mod Scan
