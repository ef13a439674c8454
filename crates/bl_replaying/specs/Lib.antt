pub mod Replays
pub mod Open
pub mod Finding
pub mod Runs
