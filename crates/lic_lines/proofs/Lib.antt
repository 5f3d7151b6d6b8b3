pub mod GroupLemmas
pub mod Gaps
pub mod Seams
pub mod KindSequences
pub mod TokenLemmas
pub mod PlainSigns
pub mod TextStarts
pub mod LineByLine
mod examples
