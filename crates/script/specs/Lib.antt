pub mod Answers
pub mod Kinds
pub mod Order
pub mod Reading
