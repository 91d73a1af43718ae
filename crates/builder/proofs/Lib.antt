pub mod Allowed
pub mod Standing
pub mod Octets
