pub mod Numbers
pub mod Header
