pub mod Greetings
pub mod Places
pub mod Doors
