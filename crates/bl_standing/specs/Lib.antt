pub mod Standing
pub mod Telling
pub mod States
