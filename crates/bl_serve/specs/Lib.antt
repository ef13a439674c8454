pub mod Told
pub mod Courses
pub mod Speakers
pub mod Together
pub mod Visits
pub mod Outcome
pub mod Talks
pub mod Telling
