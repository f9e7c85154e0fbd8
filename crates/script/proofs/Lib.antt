mod Counting
pub mod Finding
mod Gathering
mod Ordering
