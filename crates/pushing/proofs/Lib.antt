pub mod Ranges
pub mod LastArcs
pub mod OneRecord
pub mod Joining
pub mod Steps
pub mod Keeping
