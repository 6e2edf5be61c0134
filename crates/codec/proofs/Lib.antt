pub mod FileLaws
pub mod Layouts
pub mod StreamBytes
pub mod FileBytes
