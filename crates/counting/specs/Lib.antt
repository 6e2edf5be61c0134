pub mod Limits
pub mod Count
pub mod Heads
pub mod Counting
