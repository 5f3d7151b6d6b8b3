pub mod Stream
pub mod Counts
