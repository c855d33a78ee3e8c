pub mod Joined
pub mod Sound
pub mod Row
