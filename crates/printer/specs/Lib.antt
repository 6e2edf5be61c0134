pub mod Lines
pub mod Watching
pub mod Printing
