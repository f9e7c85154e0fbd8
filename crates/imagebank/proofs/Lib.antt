mod NewWords
mod Writes
