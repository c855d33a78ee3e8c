pub mod Plan
pub mod Tests
