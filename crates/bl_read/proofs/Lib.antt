pub mod Meanings
pub mod OneAnswer
pub mod RawLists
pub mod RuleNames
pub mod RuleMeanings
pub mod SomeLine
pub mod Lookups
