pub mod Wrote
pub mod Pieces
