pub mod Making
pub mod Naming
pub mod Finding
pub mod Telling
