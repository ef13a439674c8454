pub mod Items
pub mod Opened
pub mod Entered
pub mod Denials
pub mod Granted
pub mod Exemption
pub mod Ways
pub mod Whole
