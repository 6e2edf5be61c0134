pub mod Known
pub mod Seeks
pub mod Fires
pub mod Told
