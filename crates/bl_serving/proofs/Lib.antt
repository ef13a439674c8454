pub mod Hosting
pub mod Served
