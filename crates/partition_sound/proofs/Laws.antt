pub mod Areas
pub mod Asked
pub mod Pass
pub mod Well
pub mod Rest
pub mod Whole
pub mod Lands
pub mod Sound
