pub mod Parts
pub mod SourceLaws
pub mod Posing
pub mod Sums
