pub mod Reads
pub mod Written
