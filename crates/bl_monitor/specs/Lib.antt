pub mod Undoing
pub mod Running
pub mod Kept
pub mod Places
pub mod Judging
pub mod Heard
pub mod Sound
pub mod Faults
