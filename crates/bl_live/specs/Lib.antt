pub mod Repeats
pub mod Telling
