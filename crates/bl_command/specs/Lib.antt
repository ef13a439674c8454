pub use Rattle.bl_command_line.specs.CommandLine
pub use Rattle.bl_words.specs.Words
pub use Rattle.bl_words.specs.Status
pub mod Runs
pub mod Asked
pub mod Hints
