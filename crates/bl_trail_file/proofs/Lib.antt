pub mod Paths
pub mod Unkept
