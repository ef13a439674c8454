pub mod Unsaying
