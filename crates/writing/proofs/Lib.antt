pub mod Lists
pub mod Parts
pub mod Steps
pub mod Tables
