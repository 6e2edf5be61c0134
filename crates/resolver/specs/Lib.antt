pub mod Raw
pub mod Writing
pub mod Sorting
pub mod Resolving
pub mod Formers
pub mod InScope
pub mod Room
