pub mod Permissions
pub mod Rows
pub mod Remarks
