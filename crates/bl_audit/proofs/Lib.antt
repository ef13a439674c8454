pub mod Later
pub mod Lines
pub mod Texts
pub mod WithoutLf
pub mod Trails
pub mod Telling
pub mod Staying
