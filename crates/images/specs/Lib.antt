pub mod Packings
pub mod Images
pub mod Steps
pub mod Loads
pub mod Fits
pub mod RoundTrip
pub mod Figures
