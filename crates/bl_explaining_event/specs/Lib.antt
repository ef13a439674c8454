pub mod Decisions
pub mod Courses
pub mod Starts
pub mod Telling
pub mod Explains
pub mod Origins
