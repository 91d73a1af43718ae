pub mod TwoEnds
pub mod Changing
