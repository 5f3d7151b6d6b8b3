pub mod SameLetters
pub mod LongestLemmas
pub mod RequiredEndLemmas
pub mod KeysLemmas
pub mod CandidateLemmas
