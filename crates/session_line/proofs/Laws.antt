pub mod Session
pub mod Rooms
pub mod Shown
pub mod Rest
pub mod Turn
