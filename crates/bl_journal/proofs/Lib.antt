pub mod Heading
pub mod Recovering
pub mod Living
pub mod Resuming
