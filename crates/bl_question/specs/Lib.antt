pub mod Asked
pub mod Wishes
pub mod Telling
