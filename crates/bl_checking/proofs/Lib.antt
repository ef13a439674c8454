pub mod Putting
pub mod Showing
