pub mod Bits
pub mod Cells
pub mod Data
pub mod Nodes
pub mod NewParts
