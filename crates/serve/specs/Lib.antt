pub mod Turn
pub mod Run
pub mod Ends
