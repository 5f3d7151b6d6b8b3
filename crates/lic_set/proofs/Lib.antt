pub mod Ordering
pub mod RisingLemmas
pub mod CandidateLemmas
