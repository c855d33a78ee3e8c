pub mod Entries
pub mod Shapes
