pub mod Popping
pub mod Finding
pub mod Entering
pub mod Aiming
pub mod Ascending
pub mod Sealing
