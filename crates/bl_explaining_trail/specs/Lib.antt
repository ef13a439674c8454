pub mod Moments
pub mod Telling
pub mod Explains
