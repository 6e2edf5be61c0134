pub mod CellLaws
pub mod Operating
pub mod Functions
pub mod SymbolLaws
pub mod Stepping
pub mod Started
