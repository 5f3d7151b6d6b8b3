pub mod BareTokens
pub mod PieceLines
pub mod EndedLines
pub mod LineBegins
pub mod EdgeLemmas
pub mod PieceTokens
mod examples
