pub mod Scanning
pub mod Standing
pub mod Rules
pub mod Asking
