mod Asking
mod Away
mod Heads
mod Mapping
