pub mod Pieces
pub mod Edges
