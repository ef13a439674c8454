pub mod Ranges
pub mod Said
