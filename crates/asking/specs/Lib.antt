pub mod Replies
pub mod Encoding
pub mod Telling
