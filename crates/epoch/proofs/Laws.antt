pub mod Epochs
pub mod Ticks
