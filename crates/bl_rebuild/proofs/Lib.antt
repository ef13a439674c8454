pub mod Lending
pub mod Naming
pub mod Making
pub mod Collecting
pub mod Stepping
pub mod Recovering
pub mod WrongHeads
