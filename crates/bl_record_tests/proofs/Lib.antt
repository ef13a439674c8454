pub mod Growing
pub mod Unmoved
