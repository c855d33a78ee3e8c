pub mod Line
pub mod Lines
pub mod Turn
pub mod Chunks
pub mod Flushes
pub mod Start
