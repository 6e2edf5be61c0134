mod Signs
mod Writing
mod Reaching
mod Reading
mod Going
mod Words
mod Operands
mod DataLaws
mod ProcessLaws
mod LineLaws
mod InitLaws
mod InitRead
mod RunLaws
pub mod Room
mod Places
mod SheetLaws
mod ParseLaws
pub mod Answered
