pub mod Quotas
pub mod Leading
