pub mod Slots
pub mod Puts
