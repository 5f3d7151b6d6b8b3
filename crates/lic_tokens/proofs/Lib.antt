pub mod SpellingPlaces
pub mod ListedTokens
pub mod EntriesBy
pub mod EntryLemmas
pub mod AddedTokens
pub mod PartedLemmas
pub mod SliceLemmas
