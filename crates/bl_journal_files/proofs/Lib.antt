pub mod Telling
pub mod Reading
mod Heads
pub mod Copies
