pub mod Making
pub mod Meanings
pub mod Lawfulness
