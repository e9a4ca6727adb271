-- JSON texts: their characters, what they spell, and the tree that they mean.
pub mod Characters
pub mod Bind
pub mod Numeral
pub mod Piece
pub mod Syntax
