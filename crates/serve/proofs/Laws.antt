pub mod Turn
pub mod Run
