pub mod Routed
pub mod Lined
pub mod Paths
