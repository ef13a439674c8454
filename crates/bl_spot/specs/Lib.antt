pub mod Parts
pub mod Asking
pub mod Tokens
pub mod Located
