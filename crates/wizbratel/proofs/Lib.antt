pub mod RoundTrip
mod Counted
pub mod Replying
pub mod Prepares
