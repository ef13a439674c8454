pub mod Fitting
pub mod Meaning
