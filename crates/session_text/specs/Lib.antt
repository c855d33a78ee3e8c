pub mod Grammar
pub mod Print
pub mod Lines
pub mod Numbers
pub mod Calls
