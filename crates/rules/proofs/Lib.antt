pub mod Look
pub mod Categories
pub mod Cases
pub mod Edges
pub mod Rounds
