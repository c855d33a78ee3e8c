pub mod Runs
pub mod Save
