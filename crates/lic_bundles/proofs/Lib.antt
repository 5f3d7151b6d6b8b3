pub mod TripleOrder
pub mod Counting
pub mod ListingLemmas
pub mod Parts
pub mod Sorting
pub mod Waiting
pub mod Queues
