pub mod Table
pub mod Remoding
pub mod Stored
