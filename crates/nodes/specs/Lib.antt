pub mod Bits
pub mod Layout
pub mod Scoped
pub mod Held
pub mod Nodes
pub mod Views
pub mod Example
