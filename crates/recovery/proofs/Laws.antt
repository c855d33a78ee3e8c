pub mod Bodies
pub mod Restore
pub mod Save
