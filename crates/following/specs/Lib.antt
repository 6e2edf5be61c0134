pub mod Fine
pub mod Follows
