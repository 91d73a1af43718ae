pub mod Refusals
pub mod Building
pub mod Standing
