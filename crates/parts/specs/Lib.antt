pub mod Rows
pub mod Behind
pub mod Walking
pub mod Sheets
