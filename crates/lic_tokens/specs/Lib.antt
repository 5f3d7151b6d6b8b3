pub mod Tokens
pub mod Places
pub mod Slices
pub mod Entries
