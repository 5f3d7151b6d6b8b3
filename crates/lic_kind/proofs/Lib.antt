pub mod FoldingLemmas
pub mod KindLemmas
pub mod LatinKinds
pub mod LetterLemmas
pub mod WordFoldings
pub mod TextsLemmas
pub mod WordLemmas
pub mod LineWords
pub mod RulesRead
pub mod FirstFault
mod examples
pub mod BeginningLemmas
pub mod PlainWords
pub mod LetterTable
