pub mod Claims
pub mod Shelf
