pub mod Cells
pub mod Reading
pub mod Call
pub mod Kinds
pub mod Runs
pub mod Parses
