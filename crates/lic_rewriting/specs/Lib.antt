pub mod Taking
pub mod Sections
pub mod Batches
