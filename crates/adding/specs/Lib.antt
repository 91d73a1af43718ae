pub mod Refusals
pub mod Admission
pub mod Extending
pub mod Adding
