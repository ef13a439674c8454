pub mod Spawned
pub mod Takes
pub mod Placed
pub mod Walked
