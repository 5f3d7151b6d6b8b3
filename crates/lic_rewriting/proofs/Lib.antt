pub mod GroupLemmas
pub mod TokenTexts
pub mod WordTexts
pub mod WordBytes
pub mod SectionTokens
pub mod LeftTokens
pub mod TakenSteps
pub mod BatchLemmas
