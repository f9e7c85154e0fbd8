pub mod Meant
pub mod Table
pub mod Tables
