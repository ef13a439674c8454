pub mod Built
pub mod Cuts
pub mod Takings
pub mod Placings
pub mod Faultless
pub mod Statements
pub mod Bodies
