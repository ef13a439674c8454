pub mod Loan
pub mod Told
pub mod Lending
pub mod Performed
