pub mod Kept
pub mod Copied
pub mod Move
pub mod Passes
