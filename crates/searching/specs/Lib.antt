pub mod Refusals
pub mod Searches
