pub mod Summands
pub mod Listing
