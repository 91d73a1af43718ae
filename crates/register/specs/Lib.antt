pub mod Slots
pub mod Answers
