pub mod Entering
pub mod Inputs
pub mod Returning
