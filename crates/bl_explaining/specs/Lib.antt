pub mod Places
pub mod Shown
pub mod Explained
pub mod Rules
pub mod Explains
