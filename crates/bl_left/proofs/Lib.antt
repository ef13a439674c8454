pub mod Over
pub mod Behind
pub mod TrueEnds
pub mod Leaving
