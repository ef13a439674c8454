pub mod Unfinished
pub mod Remaking
pub mod Following
pub mod Stepping
pub mod Rebuilds
