pub mod Close
pub mod Rows
pub mod Settle
