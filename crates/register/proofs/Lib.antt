pub mod Probing
pub mod Entering
