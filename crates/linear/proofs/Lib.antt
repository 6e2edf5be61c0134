pub mod Marks
pub mod Streams
