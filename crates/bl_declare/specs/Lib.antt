pub mod Declaration
pub mod Reading
pub mod Faults
pub mod Words
pub mod Parsing
