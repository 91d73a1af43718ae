pub mod Records
pub mod Steps
pub mod Building
pub mod Theorems
