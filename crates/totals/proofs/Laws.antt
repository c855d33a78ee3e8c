pub mod Clearing
pub mod Tallied
pub mod Weighs
pub mod Lot
pub mod Lands
pub mod Page
