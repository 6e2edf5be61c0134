pub mod Rising
pub mod Depth
pub mod FuncValues
pub mod Bounded
pub mod ScopePuts
pub mod Resolving
pub mod Reading
