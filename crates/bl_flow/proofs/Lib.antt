pub mod Lists
pub mod LawsBelow
pub mod Kept
pub mod Down
pub mod Records
pub mod Alone
pub mod Lawful
pub mod Told
pub mod Plain
mod Examples
mod Rows
mod PlainRows
