pub mod Fits
pub mod Reading
pub mod Whole
pub mod Going
pub mod Reaching
