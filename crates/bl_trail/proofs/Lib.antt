mod Base
mod Rows
mod Lines
pub mod Numbers
pub mod Words
pub mod Following
pub mod OneEventLaw
pub mod AskingLaws
pub mod Verdicts
pub mod OneVerdict
pub mod SmallTrails
pub mod Heading
pub mod Memory
pub mod TrueTexts
pub mod Comparing
