pub mod Areas
pub mod Sound
pub mod Asked
pub mod Pass
pub mod Rest
