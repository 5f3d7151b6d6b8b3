pub mod Bytes
pub mod Simple
pub mod OwnLetters
pub mod PlainLines
pub mod Edges
