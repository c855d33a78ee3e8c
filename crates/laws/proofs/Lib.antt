pub mod Laws
pub mod History
pub mod Promises
pub mod Totals
pub mod Cuts
pub mod Saving
pub mod Recovers
