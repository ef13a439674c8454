pub mod Buffers
pub mod Intakes
pub mod Lines
pub mod Streams
