pub mod Placing
pub mod Placings
