pub mod Growing
pub mod Keeping
pub mod Loans
pub mod Idle
pub mod Going
pub mod Histories
pub mod Resuming
pub mod Causing
