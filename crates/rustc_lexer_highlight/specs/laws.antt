pub mod Literal
pub mod Pieces
