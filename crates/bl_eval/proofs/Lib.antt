pub mod Steps
pub mod Runs
pub mod Pieces
pub mod Loans
