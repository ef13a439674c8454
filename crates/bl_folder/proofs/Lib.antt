pub mod Numbers
pub mod Parting
pub mod Reading
