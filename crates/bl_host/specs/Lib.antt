pub use Rattle.bl_entrance.specs.Ends
pub use Rattle.bl_entrance.specs.Arrivals
pub mod Threads
pub mod Gathering
pub mod Closing
pub mod Early
