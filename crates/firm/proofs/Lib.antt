pub mod Opens
pub mod Listed
