pub mod Places
pub mod Find
