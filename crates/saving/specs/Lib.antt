pub mod Shape
pub mod Standing
pub mod Refusals
pub mod Saves
