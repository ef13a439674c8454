pub mod Blind
pub mod Pieces
pub mod Lists
pub mod Theory
pub mod Texts
pub mod FirstOnes
pub mod Contents
pub mod Altered
mod Rows
pub mod Same
pub mod Numbering
pub mod Behaviours
pub mod WhenFaults
pub mod KnownLines
pub mod Widths
pub mod AskedScripts
pub mod MeantLevels
