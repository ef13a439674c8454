pub mod Reasons
pub mod RuleReasons
pub mod Telling
