pub mod Outcomes
pub mod Giving
