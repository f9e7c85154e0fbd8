pub mod Calls
pub mod Faults
pub mod Limits
pub mod Making
pub mod Meaning
