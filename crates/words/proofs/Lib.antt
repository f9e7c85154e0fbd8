pub mod Changes
pub mod Checks
mod Fits
pub mod Images
pub mod Plains
pub mod Spots
