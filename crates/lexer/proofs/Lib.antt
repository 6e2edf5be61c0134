pub mod Match
pub mod Runs
mod EachByte
mod Signs
pub mod Cells
mod Reading
mod FirstToken
mod Depth
mod Scan
mod Questions
pub mod Accepted
