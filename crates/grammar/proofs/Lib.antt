pub mod Weight
pub mod PrintedLines
pub mod Printed
pub mod TokenLaws
pub mod Taken
pub mod Rendered
pub mod ValidNames
