pub mod Altering
pub mod Changes
pub mod Pushing
