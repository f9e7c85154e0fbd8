pub mod Checking
pub mod Format
pub mod Spots
