pub mod Places
pub mod Reach
pub mod Weighed
