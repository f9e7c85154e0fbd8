pub mod Closing
pub mod Closings
