pub mod Serving
pub mod Telling
pub mod Hosted
pub mod Chained
pub mod Leaving
pub mod Plans
