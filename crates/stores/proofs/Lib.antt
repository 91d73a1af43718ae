pub mod Celling
pub mod Running
