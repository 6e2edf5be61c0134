pub mod DataPieces
pub mod TermPieces
pub mod LinePieces
