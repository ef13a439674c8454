pub mod SpelledCodes
pub mod RawFalls
pub mod RawRules
pub mod RawView
pub mod Tokens
pub mod Parsing
pub mod RawBodies
pub mod Reading
