pub mod Folds
pub mod Puts
