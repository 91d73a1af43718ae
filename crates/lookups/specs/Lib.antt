pub mod Standing
pub mod Lookups
