pub mod Joined
pub mod Laid
pub mod Planned
pub mod Shown
pub mod Words
pub mod Written
