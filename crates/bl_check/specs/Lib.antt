pub mod OfDocuments
pub mod Uses
pub mod Checked
