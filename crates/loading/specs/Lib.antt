pub mod Refusals
pub mod Answers
pub mod Heads
pub mod Index
pub mod Working
pub mod Ends
pub mod Wholes
pub mod Loading
