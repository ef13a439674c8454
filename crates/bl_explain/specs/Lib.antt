pub mod Grounds
pub mod Tests
pub mod Ranges
pub mod RuleTests
pub mod Several
pub mod Since
pub mod Run
pub mod SetupLines
