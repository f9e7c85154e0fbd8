mod Cutting
mod Parsed
