pub mod Members
pub mod Ranks
pub mod Settling
pub mod Advancing
pub mod Heaps
pub mod Sweeping
pub mod Sorting
pub mod Lasts
