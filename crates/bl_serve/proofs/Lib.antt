pub mod ToldLaws
mod Taking
pub mod Opened
mod Staying
pub mod Telling
mod Alone
mod Admitted
pub mod Going
pub mod Transcribing
mod Quiet
pub mod Owning
pub mod Cutting
pub mod Coming
pub mod OutcomeLaws
mod Speaking
pub mod Together
mod Faults
pub mod Asking
mod TalkLaws
mod TalkEnds
