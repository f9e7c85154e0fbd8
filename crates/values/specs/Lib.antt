pub mod Baselines
pub mod Coding
pub mod Faults
pub mod Making
pub mod Notices
pub mod Texts
pub mod Codings
