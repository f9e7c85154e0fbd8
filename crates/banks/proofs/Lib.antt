pub mod Causes
pub mod Makings
pub mod Ranges
