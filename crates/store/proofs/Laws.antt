pub mod Kept
pub mod Write
pub mod Scan
pub mod Purge
pub mod RollBack
pub mod Part
