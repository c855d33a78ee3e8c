pub mod Rolled
pub mod Lots
