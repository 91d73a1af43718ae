pub mod LastRecord
pub mod NewestKey
pub mod Parting
pub mod FiveSteps
pub mod Telling
