pub mod Copies
pub mod Levels
pub mod Meaning
pub mod Trees
pub mod Votes
