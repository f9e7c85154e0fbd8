pub mod Cutting
pub mod Words
pub mod Written
pub mod Meanings
pub mod Pairs
