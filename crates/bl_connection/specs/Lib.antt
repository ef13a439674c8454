pub mod Answers
pub mod Connections
pub mod Tellings
