pub mod Print
pub mod Lines
pub mod Grammar
pub mod Numbers
pub mod Calls
