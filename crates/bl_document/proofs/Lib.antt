pub mod Additions
pub mod Fronts
