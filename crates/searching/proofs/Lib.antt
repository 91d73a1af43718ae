pub mod Prefixed
pub mod Strings
pub mod Lengths
pub mod Passing
pub mod Writing
pub mod SearchSteps
pub mod WrittenKeys
