pub mod RuleFaults
pub mod LineFaults
