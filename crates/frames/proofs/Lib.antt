pub mod Over
pub mod FrameLists
