pub mod Spelled
pub mod Occurring
pub mod TokenPlaces
pub mod Reading
pub mod TextReading
pub mod TieReading
pub mod TiePlaces
pub mod TieLetters
pub mod TieEnds
pub mod TieTokens
pub mod TieRange
pub mod EdgeLemmas
pub mod TextWords
mod examples
