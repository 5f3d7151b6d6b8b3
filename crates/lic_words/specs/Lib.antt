pub mod Words
pub mod Expressions
pub mod Letters
pub mod Spelling
pub mod Reading
pub mod Describing
pub mod Reversal
