pub mod Loaded
pub mod Saved
pub mod Turned
