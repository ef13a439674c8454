pub mod Masks
pub mod Dominance
pub mod LevelTexts
pub mod ReadingLevels
pub mod WritingLevels
