pub mod Firm
pub mod Names
pub mod Links
pub mod Outcomes
