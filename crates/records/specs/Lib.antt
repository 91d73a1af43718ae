pub mod Lying
pub mod Shape
pub mod Holding
pub mod Registering
