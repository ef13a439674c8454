pub mod Status
pub mod Failure
pub mod Message
pub mod Named
pub mod Places
pub mod Runs
