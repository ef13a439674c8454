pub mod Places
pub mod Queueing
pub mod Shelves
