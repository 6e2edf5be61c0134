pub mod Texts
pub mod TextLaws
pub mod Rendering
pub mod Pieces
pub mod LinePieces
