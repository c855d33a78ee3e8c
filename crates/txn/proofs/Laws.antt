pub mod Records
pub mod Cut
