pub mod Loaned
pub mod Fronts
pub mod Loans
pub mod Granted
pub mod Counts
